pub mod LengthLaws
pub mod Views
pub mod Within
pub mod RowFacts
pub mod Takers
pub mod InnerLaws
pub mod Answered
pub mod ElseLaws
pub mod LevelLaws
mod Encodes
pub mod EncodedLaws
mod RowIndex
