pub mod Records
pub mod Layout
