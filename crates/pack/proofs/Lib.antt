pub mod Tests
pub mod Inverted
pub mod Writes
pub mod Ready
