pub mod Nodes
pub mod Tree
pub mod Peek
pub mod Ends
pub mod Found
pub mod Whole
