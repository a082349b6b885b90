pub mod Handles
pub mod Codes
pub mod Dumps
pub mod Contents
pub mod States
pub mod Sets
pub mod Steps
pub mod Reads
