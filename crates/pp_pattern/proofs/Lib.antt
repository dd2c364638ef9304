pub mod AskedLemmas
pub mod FoundLemmas
pub mod MaskLemmas
pub mod PartLemmas
pub mod AskQuiet
mod Rows
