pub mod ContentLemmas
pub mod StreamLemmas
