mod SumsOfSums
mod Remapping
mod SteppedSamples
mod SteppedHeader
pub mod SteppedMerges
mod Weights
mod NamedMappings
pub mod Admitted
mod Exchanged
mod Vanishing
mod KeptMappings
pub mod AnyGroups
mod MergesNamed
mod MergesOrdinary
