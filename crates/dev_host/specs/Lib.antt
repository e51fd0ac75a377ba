pub mod Bound
pub mod Moment
