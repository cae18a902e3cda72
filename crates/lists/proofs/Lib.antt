pub mod Inverse
pub mod Again
pub mod Counted
pub mod Writing
