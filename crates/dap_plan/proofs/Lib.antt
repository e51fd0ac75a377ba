pub mod DataLemmas
pub mod LaidLemmas
pub mod PlanLemmas
