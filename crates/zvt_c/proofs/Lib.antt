pub mod First
pub mod Handed
pub mod Masked
pub mod Pointers
mod Rows
pub mod Slices
pub mod Values
