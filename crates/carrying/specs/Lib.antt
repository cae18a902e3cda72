pub mod Carrying
pub mod Kept
pub mod Checked
pub mod Answers
pub mod Carried
