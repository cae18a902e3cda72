pub mod Answered
pub mod Fitting
pub mod Times
