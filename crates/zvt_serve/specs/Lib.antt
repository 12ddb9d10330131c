pub mod Answers
pub mod Asking
pub mod Deciding
pub mod Laws
pub mod Outcomes
pub mod Status
pub mod Troubles
