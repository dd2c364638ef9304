pub mod Reading
pub mod Varint
pub mod Walk
pub mod Place
pub mod Fields
pub mod Spelling
