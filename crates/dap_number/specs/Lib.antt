pub mod Front
pub mod Overlay
