pub mod Edges
pub mod Figures
pub mod Loads
pub mod Merged
pub mod Places
pub mod Reports
