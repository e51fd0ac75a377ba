pub mod Accepted
pub mod Alone
pub mod Output
pub mod WellFormed
pub mod WellServed
pub mod Worked
pub mod WorkedMany
