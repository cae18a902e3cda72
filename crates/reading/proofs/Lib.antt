pub mod Chosen
pub mod Answered
pub mod Cursors
