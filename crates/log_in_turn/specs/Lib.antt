pub mod Told
pub mod LogInTurn
