pub mod Raw
pub mod Saved
pub mod Stacks
pub mod Unfiltered
pub mod Places
