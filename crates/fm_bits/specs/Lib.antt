pub mod Denotes
pub mod Digits
pub mod Quoted
pub mod Text
pub use Rattle.nc_model.specs.Pattern
