pub mod Accepted
pub mod Axis
pub mod Compared
pub mod Loading
