pub mod TableLaws
pub mod MethodLaws
