pub mod Sides
mod Rows
mod Forks
pub mod Basics
pub mod Walks
pub mod Family
pub mod Gather
pub mod Order
pub mod Places
pub mod Visiting
