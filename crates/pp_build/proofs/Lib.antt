pub mod BuiltLemmas
pub mod ChangeLemmas
pub mod FrameLemmas
pub mod OnceLemmas
pub mod PutLemmas
pub mod SaidLemmas
pub mod SampleLemmas
pub mod StandsLemmas
