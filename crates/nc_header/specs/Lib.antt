pub use Rattle.fm_base.specs.Answer
pub use Rattle.nc_model.specs.Reading
pub use Rattle.nc_model.specs.Spelling
pub mod Names
pub mod NoHeader
pub mod Parts
pub mod Turns
