pub mod Accept
pub mod Patience
pub mod Remaining
pub mod Share
pub mod Taking
