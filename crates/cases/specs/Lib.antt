pub mod Hex
pub mod Starred
pub mod FormTwo
pub mod Lists
pub mod Sheets
