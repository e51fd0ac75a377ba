pub mod Content
pub mod Moving
pub mod Process
pub mod Trouble
