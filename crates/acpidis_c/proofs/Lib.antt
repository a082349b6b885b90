pub mod AsBox
pub mod Full
pub mod Calling
pub mod Running
pub mod Listing
