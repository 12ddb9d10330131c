mod Digits
mod Absences
pub mod UsedTraceLemmas
pub mod Segments
pub mod Summaries
pub mod Payment
pub mod Marks
pub mod Settled
pub mod Reversals
pub mod SegmentEndLemmas
pub mod Endings
pub mod LogStateLemmas
pub mod Registrations
pub mod Restored
pub mod Steps
pub mod Approvals
pub mod BookStepLemmas
pub mod Distinct
pub mod Runs
pub mod Lines
pub mod Accepted
pub mod Keepers
pub mod Pieces
pub mod TillHistoryLemmas
pub mod Ordering
pub mod BooksLemmas
pub mod HeardLemmas
pub mod Unclear
mod Rows
mod Ruled
mod Repeats
pub mod RulesLemmas
pub mod Room
mod DistinctLemmas
pub mod NumbersHeard
pub mod SnapshotBodies
pub mod SnapshotHeaders
pub mod SnapshotLostLine
pub mod SnapshotLeft
pub mod SnapshotNumbers
pub mod SnapshotRows
