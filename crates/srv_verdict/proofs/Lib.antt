pub mod AttemptLemmas
pub mod DecidingLemmas
pub mod HeldLemmas
pub mod LaterLemmas
pub mod LookLemmas
pub mod SeesLemmas
