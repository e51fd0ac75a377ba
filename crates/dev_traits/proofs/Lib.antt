pub mod LinkLemmas
pub mod MovedLemmas
pub mod TellLemmas
