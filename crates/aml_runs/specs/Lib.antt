pub mod TableRuns
pub mod Worked
