pub mod Sums
pub mod Moves
pub mod Sent
pub mod Votes
pub mod Logged
pub mod Forged
