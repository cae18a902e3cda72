pub mod Way
pub mod State
pub mod Requests
