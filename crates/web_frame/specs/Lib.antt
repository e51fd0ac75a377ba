pub mod Cut
pub mod Head
pub mod Items
pub mod Limit
pub mod Said
pub mod Scan
pub mod Stream
