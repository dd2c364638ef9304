pub mod Same
pub mod Coarser
pub mod Finer
pub mod Listed
pub mod Callers
pub mod Sources
pub mod Shown
pub mod Changes
