pub mod Top
pub mod Compare
pub mod Changes
pub mod ComparedRows
