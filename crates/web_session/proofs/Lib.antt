pub mod LookLemmas
pub mod ReplyLemmas
pub mod RunLaws
pub mod RunLemmas
pub mod SentLemmas
pub mod SoundLemmas
pub mod StartLemmas
pub mod StepLemmas
