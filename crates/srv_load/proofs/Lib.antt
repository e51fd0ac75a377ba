pub mod BodyLemmas
pub mod FileLemmas
pub mod InstantLemmas
pub mod NameLemmas
pub mod RoomLemmas
pub mod SumLemmas
pub mod TakenLemmas
pub mod ViewLemmas
