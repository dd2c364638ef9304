pub mod First
pub mod Portions
pub mod Adding
pub mod Nodes
pub mod Account
pub mod Lines
