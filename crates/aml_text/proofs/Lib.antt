pub mod Common
pub mod Pairs
mod RowLaws
pub mod PieceLaws
mod RowLines
pub mod ListingLaws
pub mod SameBlocks
pub mod ToldLaws
