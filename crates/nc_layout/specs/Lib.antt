pub mod LaidOut
pub mod Faults
pub mod Meaning
pub mod Kept
pub mod Examples
