pub mod Devices
pub mod Opening
pub mod Shows
