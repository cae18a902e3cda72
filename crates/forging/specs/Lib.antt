pub mod Entries
pub mod Forging
