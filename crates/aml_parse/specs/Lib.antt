pub mod Reading
pub mod Telling
pub mod Built
pub mod Running
pub mod Kept
