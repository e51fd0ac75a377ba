pub mod Extract
pub mod Sending
pub mod Views
