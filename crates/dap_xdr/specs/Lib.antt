pub mod Content
pub mod Datasets
pub mod Marks
pub mod Portion
pub mod Rows
pub mod Stretch
