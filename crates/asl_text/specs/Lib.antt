-- The text of each thing.
pub mod Texts
pub mod Pieces
pub mod Tables
pub mod TextLaws
pub mod Bodies
