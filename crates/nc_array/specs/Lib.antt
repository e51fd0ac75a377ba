pub mod File
pub mod Parts
pub use Rattle.nc_layout.specs.LaidOut
