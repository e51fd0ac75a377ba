pub mod AloneBlameLemmas
pub mod BlameLemmas
pub mod JobLemmas
pub mod OpenedBlameLemmas
pub mod PullLemmas
pub mod ServedBlameLemmas
