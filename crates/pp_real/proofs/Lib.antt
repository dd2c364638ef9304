pub mod ReadLemmas
pub mod KnownLemmas
