pub mod RehearseCases
