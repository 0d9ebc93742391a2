pub mod Done
pub mod InTurn
