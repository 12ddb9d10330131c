pub mod DifferenceTexts
pub mod Numbers
pub mod Script
pub mod Playing
pub mod Naming
pub mod Unheard
pub mod OpenPlay
