mod Rows
pub mod Refusals
pub mod WordsLemmas
pub mod RecordLemmas
pub mod HexLemmas
pub mod Numbered
pub mod SampleLemmas
pub mod HolderLemmas
pub mod TableRules
pub mod LegacyLemmas
pub mod Turns
