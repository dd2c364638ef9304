pub mod Adding
pub mod Given
pub mod Growing
pub mod Said
pub mod Same
pub mod Seen
pub mod Sound
