pub mod Strings
pub mod Fields
pub mod Messages
pub mod Events
pub mod Receipts
pub mod Texts
pub mod Reading
pub mod Laws
