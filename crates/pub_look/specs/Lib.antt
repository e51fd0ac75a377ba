pub mod History
pub use Rattle.fm_edition.specs.Held
pub use Rattle.fm_edition.specs.Log
