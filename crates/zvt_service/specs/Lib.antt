pub mod Books
pub mod Fates
pub mod Lives
pub mod Service
