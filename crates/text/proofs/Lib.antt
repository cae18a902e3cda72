pub mod Refusals
pub mod Over
pub mod Bounds
pub mod Ends
