pub mod Letters
pub mod ReadBack
pub mod Completing
