pub mod Names
pub mod NameReading
pub mod Paths
pub mod Branches
pub mod Searching
