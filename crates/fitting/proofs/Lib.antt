pub mod Decoded
pub mod Passed
