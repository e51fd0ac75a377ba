pub mod Begins
pub mod Below
pub mod Code
pub mod Escape
pub mod Path
pub mod Reading
pub mod Target
pub mod Url
