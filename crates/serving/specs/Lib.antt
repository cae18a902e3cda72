pub mod Stored
pub mod Stages
pub mod Settled
pub mod Methods
