pub mod Apart
pub mod ThreeBytes
pub mod PairLaws
