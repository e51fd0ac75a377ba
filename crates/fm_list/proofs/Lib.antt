pub mod Behind
pub mod BestSteps
pub mod CellSteps
pub mod OldestRun
pub mod SearchLemmas
pub mod SpacingLemmas
pub mod TimeSteps
