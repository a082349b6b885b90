pub mod Selecting
pub mod Entering
pub mod Leading
pub mod Following
pub mod WorkedRuns
