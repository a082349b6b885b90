pub mod Common
pub mod TableLaws
pub mod Sharing
pub mod BodyLaws
pub mod Spelling
pub mod MeaningLaws
pub mod RunLaws
pub mod ToldLaws
mod BesideLaws
pub mod TrialLaws
pub mod CheckLaws
pub mod SameLaws
pub mod Taking
mod UnreadLaws
