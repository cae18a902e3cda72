pub mod EntryLaws
pub mod Forgeries
