pub mod HeldBack
pub mod Names
pub mod Paths
pub mod Stamps
