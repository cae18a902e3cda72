pub mod Requesting
pub mod AskingLaws
