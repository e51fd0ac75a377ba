pub mod View
pub use Rattle.fm_dataset.specs.Values
pub use Rattle.fm_edition.specs.Held
pub use Rattle.fm_model.specs.Rows
