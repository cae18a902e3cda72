pub mod Buffers
pub mod Shown
pub mod Whole
