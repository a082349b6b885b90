pub mod Counts
pub mod Runs
pub mod Moves
pub mod Lots
pub mod Places
