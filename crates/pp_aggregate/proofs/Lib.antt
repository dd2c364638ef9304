pub mod ChangeLemmas
pub mod ValidLemmas
pub mod FilterLemmas
pub mod FrameLemmas
pub mod LastLemmas
pub mod StackLemmas
pub mod KeyLemmas
pub mod ReportLemmas
