pub mod Opened
pub mod Starred
pub mod NotEmpty
pub mod JustSet
pub mod Depth
pub mod Packed
pub mod Sheets
pub mod Forecasts
