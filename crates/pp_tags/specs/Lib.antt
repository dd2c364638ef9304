pub mod Labels
pub mod Pairs
pub mod TagFilters
pub mod TagPairs
pub mod Verdicts
