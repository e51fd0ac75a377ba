pub mod Book
pub mod Copies
pub mod Opening
pub use Rattle.pub_look.specs.History
pub use Rattle.fm_edition.specs.Log
