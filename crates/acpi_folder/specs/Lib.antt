pub mod Map
pub mod Externals
pub mod Folders
pub mod Quoted
pub mod Faults
