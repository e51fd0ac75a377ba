pub mod CheckedLemmas
pub mod NameLemmas
pub mod PrototypeLemmas
pub mod SearchLemmas
