pub mod Chunks
pub mod Heard
pub mod Log
pub mod Relay
pub mod Traced
pub mod Watching
