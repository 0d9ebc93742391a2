pub mod Rows
pub mod Inner
