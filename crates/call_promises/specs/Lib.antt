pub mod Calls
pub mod Refused
pub mod Demands
pub mod InTurn
