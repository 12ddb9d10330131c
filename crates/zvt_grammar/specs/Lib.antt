pub mod Reading
pub mod Lengths
pub mod Beginnings
pub mod Cuts
pub mod Tests
pub mod Names
pub mod Laws
