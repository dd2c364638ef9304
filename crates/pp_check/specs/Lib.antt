pub mod Finds
pub mod FirstFault
pub mod Known
pub mod Whole
pub mod Sound
pub mod Checks
