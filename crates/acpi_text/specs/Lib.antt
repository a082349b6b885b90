-- The text of dumps.
pub mod Dumps
