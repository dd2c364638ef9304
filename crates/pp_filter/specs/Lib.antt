pub mod Asked
pub mod Filtered
