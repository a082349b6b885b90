pub mod Bodies
pub mod Meaning
pub mod Endings
pub mod Checks
pub mod Refusals
pub mod Told
pub mod Beside
