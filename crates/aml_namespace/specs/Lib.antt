pub mod Kinds
pub mod Predefined
pub mod Namespace
pub mod Known
pub mod Runs
pub mod Searching
pub mod Tallies
