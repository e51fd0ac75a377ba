pub mod Attempts
pub mod Verdicts
