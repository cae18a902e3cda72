pub mod StoredPlaces
pub mod LookCases
