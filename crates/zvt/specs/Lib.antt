pub mod Settings
pub mod Notes
pub mod Output
pub mod Runs
pub mod TextBlocks
