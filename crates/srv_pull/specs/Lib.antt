pub mod Pull
pub mod Sums
