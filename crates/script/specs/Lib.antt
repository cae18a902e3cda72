pub mod Script
pub mod Inputs
