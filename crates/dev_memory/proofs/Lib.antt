mod DialLemmas
mod FirstLemmas
