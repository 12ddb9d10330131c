pub mod Names
pub mod Html
pub mod Document
pub mod Laws
