pub mod Escaped
pub mod Folded
pub mod PathNames
pub mod Table
pub mod Laws
