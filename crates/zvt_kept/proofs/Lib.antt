pub mod AskLemmas
mod AsksOutlived
mod Begun
mod Bytes
pub mod CallsOutlived
mod CheckLemmas
mod Failing
mod Kept
mod LineLemmas
pub mod Logged
pub mod Made
mod NoteLemmas
mod OpeningLemmas
mod Numbers
mod Opened
mod Outlived
mod Ordered
pub mod PastOrderLemmas
pub mod PastOrdersStay
pub mod PaidOrders
mod ReadLines
pub mod Recovering
pub mod Relived
mod Remarked
mod Replayed
mod RowNoteLemmas
mod Rows
pub mod RunsOutlived
mod Reserved
mod Short
mod Spaceless
pub mod Steps
mod WordLemmas
