pub mod Maps
pub mod Stores
pub mod Claims
pub mod Arrivals
pub mod Stages
pub mod Cluster
pub mod Theorem
