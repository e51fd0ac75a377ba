pub mod Expires
pub mod Ingests
pub mod Lines
pub mod Telling
pub mod Turns
pub mod Verdicts
