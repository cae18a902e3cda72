pub mod Traffic
pub mod Alone
