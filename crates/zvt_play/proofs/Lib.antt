pub mod NextLemmas
pub mod HearLemmas
pub mod PlayLemmas
pub mod ScriptLemmas
mod Rows
pub mod CheckLemmas
mod TextLemmas
pub mod UnheardLemmas
pub mod ListeningLemmas
pub mod NamingLemmas
pub mod OpenPlayLemmas
