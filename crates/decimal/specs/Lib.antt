pub mod Decimal
pub mod Stored
pub mod Aligned
