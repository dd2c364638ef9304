pub mod Blanks
pub mod Arguments
pub mod Commands
pub mod Lines
pub mod Answers
pub mod Taking
