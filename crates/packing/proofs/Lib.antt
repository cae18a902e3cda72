pub mod Turns
pub mod Fitting
pub mod Writing
