pub mod HeaderLemmas
pub mod LawLemmas
pub mod NameLemmas
pub mod NumberLemmas
pub mod ProtoLemmas
pub mod RecordLemmas
pub mod TakenLemmas
pub mod TimeLemmas
