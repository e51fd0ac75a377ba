pub mod AcceptLemmas
pub mod InstantLemmas
pub mod LengthLemmas
pub mod PackingLemmas
pub mod SlotLemmas
pub mod TimeLemmas
