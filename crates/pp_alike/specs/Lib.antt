pub mod Alike
pub mod SavedFiles
pub mod SavedGroups
