pub mod Asked
pub mod Made
pub mod Name
pub mod Summary
