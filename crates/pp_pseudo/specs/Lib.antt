pub mod Basis
pub mod Framed
pub mod Grown
pub mod KeyList
pub mod Names
pub mod TagSums
pub mod Values
pub mod WithTags
