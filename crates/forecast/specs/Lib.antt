pub mod Forecast
pub mod Steps
pub mod Numbered
