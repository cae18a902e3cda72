pub mod Limits
pub mod Bits
