pub mod ExtractLemmas
pub mod PickLemmas
pub mod SendingLemmas
pub mod ViewLemmas
