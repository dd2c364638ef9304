pub mod PatternLemmas
pub mod TypesLemmas
pub mod PreparingLemmas
pub mod FinishingLemmas
pub mod GeneratingLemmas
pub mod ProtoLemmas
mod Rows
