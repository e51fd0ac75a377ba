pub mod FindLemmas
pub mod SizeLemmas
pub mod SoundLemmas
