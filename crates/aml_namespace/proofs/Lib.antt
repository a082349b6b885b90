pub mod Stands
pub mod Ordered
pub mod NotPredefined
pub mod Upward
pub mod Given
mod Agreeing
pub mod Strict
mod Leading
pub mod Unmet
mod RunRows
mod Showing
mod Frozen
pub mod Joined
pub mod Nearest
pub mod Meeting
pub mod Finding
pub mod Growing
pub mod Said
pub mod Aimed
pub mod Numbers
