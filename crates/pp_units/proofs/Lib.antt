mod Rows
pub mod ZeroText
