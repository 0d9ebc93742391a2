pub mod Laws
pub mod Parts
pub mod Spans
pub mod Stored
pub mod Runs
pub mod Each
