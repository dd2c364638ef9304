pub mod Aggregated
pub mod Left
pub mod Laws
