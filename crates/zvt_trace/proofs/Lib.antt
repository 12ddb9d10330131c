pub mod ChunkLaws
pub mod ChunkLemmas
mod ChunkRows
pub mod EventLemmas
pub mod FeedLemmas
pub mod InputLemmas
pub mod CommentLemmas
pub mod KeptLemmas
pub mod LentLemmas
pub mod LineLemmas
pub mod PairLemmas
pub mod MarkLemmas
pub mod MomentLemmas
pub mod MarkingLemmas
pub mod OneScopeLemmas
mod PartRows
pub mod PassLemmas
pub mod PieceLemmas
pub mod PlainLemmas
pub mod ResumingLemmas
mod ResumingRows
pub mod SidesLemmas
pub mod SpelledLemmas
pub mod StartLemmas
pub mod EmitLemmas
pub mod TakenLemmas
pub mod TallyLemmas
pub mod ToldLemmas
pub mod WalkedLemmas
pub mod UnrefusedLemmas
pub mod WalkerLemmas
pub mod OpenSideLemmas
