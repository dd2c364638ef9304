pub mod Load
pub mod Masks
pub mod Patterns
pub mod Report
