pub mod AddingSamples
pub mod CutContents
pub mod CutSizes
pub mod FilteredParts
pub mod StackGroups
pub mod PlaceTexts
pub mod StackTexts
pub mod KeptStacks
pub mod CountedPlaces
pub mod SeenStacks
pub mod WholeStacks
pub mod SavedHeader
pub mod SeenSums
pub mod NaturalStacks
mod Lookups
pub mod CutParts
