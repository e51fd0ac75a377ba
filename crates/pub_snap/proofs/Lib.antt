pub mod Keeping
pub mod RuleLemmas
