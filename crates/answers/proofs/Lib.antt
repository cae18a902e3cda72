pub mod Stored
pub mod Lengths
pub mod Taken
pub mod Valued
