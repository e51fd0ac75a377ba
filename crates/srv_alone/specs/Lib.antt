pub mod Check
pub mod Collect
pub mod Load
pub mod Once
pub mod Publishing
pub mod Reading
pub mod Report
pub mod Steps
