pub mod Clauses
pub mod Protocol
pub mod Valid
