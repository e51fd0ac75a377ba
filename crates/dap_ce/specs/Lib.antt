pub mod Asked
pub mod Phases
