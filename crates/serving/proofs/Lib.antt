pub mod Settled
pub mod RowLaws
pub mod StageLaws
pub mod TakenLaws
pub mod VoteLaws
