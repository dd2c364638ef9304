pub mod Firsts
mod Counting
pub mod Each
mod Putting
pub mod Noding
mod Lining
mod Examples
