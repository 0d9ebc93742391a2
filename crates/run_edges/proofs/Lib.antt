pub mod Edges
pub mod Limited
