pub mod Opening
pub mod Rule
pub mod Steps
pub use Rattle.pub_pass.specs.Copies
pub use Rattle.pub_look.specs.History
pub use Rattle.fm_edition.specs.Log
