pub mod BlameLemmas
pub mod SumsLemmas
