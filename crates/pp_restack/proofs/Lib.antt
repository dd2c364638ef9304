pub mod PlacesLemmas
pub mod Grouping
pub mod Placing
pub mod CutValid
pub mod MadeContents
