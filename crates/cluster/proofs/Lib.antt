pub mod Asking
pub mod RowLaws
pub mod IdleLaws
pub mod ServeLaws
pub mod HearLaws
pub mod StageRuns
pub mod TickLaws
