pub mod CallerLemmas
mod Walking
mod Alike
mod Ordered
mod Sides
mod Arranged
mod Walks
mod Shown
mod Marking
mod Owned
mod Named
mod Peeking
mod Rows
mod Lookups
