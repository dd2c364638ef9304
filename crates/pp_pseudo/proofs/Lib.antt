pub mod KeyLemmas
pub mod FrameNameLemmas
pub mod NamesLemmas
pub mod GrownLemmas
pub mod AddingFrames
pub mod WithTagsLemmas
pub mod TagSumsLemmas
