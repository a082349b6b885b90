pub mod Holding
pub mod Inside
pub mod HearingLaws
pub mod Stacks
pub mod Steps
mod Grouping
pub mod Loads
pub mod Checked
mod Givens
pub mod BodyLaws
pub mod NoSpans
pub mod SpanLaws
pub mod Agreeing
pub mod Doing
pub mod Relating
pub mod RunSpans
pub mod Ran
pub mod Runs
mod Openings
pub mod Fronts
pub mod Behind
pub mod Founds
pub mod Strict
pub mod Alone
pub mod Walks
mod ShortKinds
