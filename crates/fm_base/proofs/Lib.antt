pub mod ChainLemmas
pub mod Exact
pub mod ListLemmas
pub mod Local
pub mod LocalSteps
pub mod NumberLemmas
pub mod OptionLemmas
pub mod Parts
