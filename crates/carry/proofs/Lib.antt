pub mod Fields
pub mod Moved
