pub mod Machine
pub mod Counting
pub mod Seats
