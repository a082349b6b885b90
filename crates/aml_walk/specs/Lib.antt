pub mod FieldViews
pub mod Fields
pub mod Numbers
pub mod Opcodes
pub mod Units
