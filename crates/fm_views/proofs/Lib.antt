pub mod RowCounts
pub mod RowFacts
pub mod RowSteps
