pub mod DevicesLemmas
pub mod OpeningLemmas
