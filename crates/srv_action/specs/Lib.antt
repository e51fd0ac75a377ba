pub mod Acts
pub mod Taking
