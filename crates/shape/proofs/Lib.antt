pub mod Laws
pub mod Joined
pub mod Telling
