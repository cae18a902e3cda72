pub mod Laws
pub mod Posting
pub mod Stores
pub mod Clearing
pub mod Spans
pub mod Uses
