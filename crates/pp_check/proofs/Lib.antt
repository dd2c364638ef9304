pub mod Order
pub mod Keeps
pub mod Stages
pub mod Repeats
pub mod Scans
pub mod WholeLemmas
pub mod SoundLemmas
