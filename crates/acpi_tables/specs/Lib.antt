pub mod Bytes
pub mod Header
pub mod Fadt
pub mod Madt
pub mod Dumps
pub mod Order
