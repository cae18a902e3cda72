pub mod Inputs
pub mod Tick
