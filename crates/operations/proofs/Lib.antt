pub mod Inside
pub mod Passed
pub mod Spans
