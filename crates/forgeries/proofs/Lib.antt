pub mod Forging
