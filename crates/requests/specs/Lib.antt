pub mod Requests
pub mod Asking
