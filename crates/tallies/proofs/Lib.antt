pub mod TallyLaws
