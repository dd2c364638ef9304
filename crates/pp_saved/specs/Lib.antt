pub mod Headed
pub mod Premises
pub mod Kept
pub mod StaysSaved
pub mod SavedReports
pub mod SavedBytes
