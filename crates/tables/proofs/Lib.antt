pub mod LinkLaws
pub mod Sendings
pub mod Tables
pub mod Storing
pub mod Placing
pub mod Standing
pub mod Messages
pub mod Forging
