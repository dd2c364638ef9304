pub mod AlikeLemmas
pub mod EachLemmas
pub mod FilterLemmas
pub mod LabelLemmas
pub mod PairLemmas
mod Rows
pub mod SearchLemmas
pub mod SomeFinders
pub mod SplitLemmas
