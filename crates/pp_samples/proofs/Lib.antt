pub mod FrameLineLemmas
pub mod TraceLemmas
pub mod TagNamesLemmas
pub mod Slots
pub mod TablesLemmas
pub mod KeysLemmas
pub mod CountLemmas
pub mod EventSums
pub mod SmallLemmas
pub mod PlacesLemmas
pub mod Ranking
pub mod Listed
pub mod Waves
mod Lookups
