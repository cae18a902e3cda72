pub mod Field
pub mod Fill
pub mod Layout
pub mod Writing
