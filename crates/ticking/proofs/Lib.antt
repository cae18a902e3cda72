pub mod Tables
pub mod Posts
pub mod Requests
pub mod Ticking
pub mod Turns
