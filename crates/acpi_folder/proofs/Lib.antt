pub mod Common
pub mod FirstLines
pub mod Digits
pub mod Counts
pub mod Pairs
pub mod Entries
pub mod Turns
pub mod Gathered
