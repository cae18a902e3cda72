pub mod PlayCases
