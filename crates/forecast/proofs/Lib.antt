pub mod Tables
pub mod Reached
pub mod Written
pub mod Arriving
pub mod Counted
pub mod Limited
