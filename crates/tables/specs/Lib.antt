pub mod Links
pub mod Sending
pub mod Rules
pub mod Known
pub mod Operations
pub mod Forged
