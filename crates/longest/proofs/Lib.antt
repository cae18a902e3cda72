pub mod Passes
pub mod Parts
pub mod Longest
