pub mod ChunkRows
pub mod LogLemmas
pub mod MoveLemmas
pub mod RelayLemmas
pub mod TracedLemmas
