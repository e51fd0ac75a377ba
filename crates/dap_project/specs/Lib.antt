pub mod All
pub mod Buckets
pub mod Checks
pub mod Full
pub mod Notes
pub mod Noted
pub mod Sending
pub mod Taken
