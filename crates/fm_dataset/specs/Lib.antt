pub mod Columns
pub mod Declarations
pub mod Kept
pub mod Rows
pub mod Values
