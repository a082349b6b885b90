pub mod Children
pub mod Codes
pub mod Numbered
pub mod Trees
