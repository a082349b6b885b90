pub mod Common
pub mod TextLaws
pub mod NodeLaws
pub mod LineLaws
pub mod BlockLaws
pub mod BodyLaws
pub mod LevelLaws
pub mod PieceLaws
pub mod ToldLaws
pub mod WovenLaws
pub mod PlainLaws
pub mod TableLaws
pub mod StepLaws
pub mod ToldTables
mod EndLaws
