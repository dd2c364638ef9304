pub mod Filters
pub mod LoadFinders
pub mod Runs
pub mod Tables
