pub mod Merge
pub mod Scale
pub mod Settled
pub mod Joined
pub mod Merging
pub mod Totals
pub mod Together
pub mod Lengths
