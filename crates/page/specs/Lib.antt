pub mod Page
pub mod Words
pub mod Recovered
pub mod Printable
