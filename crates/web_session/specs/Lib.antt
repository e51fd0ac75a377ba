pub use Rattle.web_frame.specs.Cut
pub use Rattle.web_frame.specs.Items
pub use Rattle.web_frame.specs.Stream
pub mod Event
pub mod Run
pub mod State
