pub mod Recording
pub mod Inner
