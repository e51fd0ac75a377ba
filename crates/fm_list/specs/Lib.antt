pub mod Change
pub mod Code
pub mod Found
pub mod Selected
pub use Rattle.fm_model.specs.Cell
pub use Rattle.fm_model.specs.Collection
pub mod Times
