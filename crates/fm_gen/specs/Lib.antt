pub mod File
pub mod Fields
pub mod Values
