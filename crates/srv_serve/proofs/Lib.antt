pub mod EndLemmas
pub mod ManyLemmas
pub mod PrototypeLemmas
pub mod RunLemmas
pub mod StageLemmas
pub mod TellingLemmas
