pub mod Dialling
pub mod Memory
