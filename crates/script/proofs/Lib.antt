pub mod Forging
pub mod Knowing
pub mod Naming
pub mod Windows
pub mod Fitting
pub mod Feeding
