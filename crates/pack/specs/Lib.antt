pub mod Pack
pub mod Inverse
pub mod Numbered
