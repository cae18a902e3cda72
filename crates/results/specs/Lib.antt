pub mod Play
pub mod Look
pub mod Judge
pub mod PointThree
pub mod Promised
pub mod Rehearse
pub mod Numbered
pub mod Stricter
