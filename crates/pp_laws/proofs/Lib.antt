pub mod IntSums
pub mod Sampling
pub mod AddingUp
pub mod Within
pub mod Parting
pub mod Reordering
pub mod Hiding
pub mod Spelling
pub mod Multiplying
pub mod Grouped
pub mod Stages
pub mod Telling
pub mod Tagging
pub mod SeenAs
pub mod Shards
pub mod Subtracting
pub mod Labelled
pub mod Comparing
mod SumsMoved
pub mod LoadedOrder
mod Accounted
