pub mod Steps
pub mod Premises
pub mod Stay
pub mod Refused
