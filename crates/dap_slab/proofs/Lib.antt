pub mod CountLemmas
pub mod ElementLemmas
pub mod IndexLemmas
pub mod WalkLemmas
