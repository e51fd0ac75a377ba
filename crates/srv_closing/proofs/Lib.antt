pub mod ClosingLemmas
pub mod LinesLemmas
