mod Keys
pub mod Living
mod Paid
mod Rows
mod Sent
mod Settled
mod Stays
mod Verdicts
