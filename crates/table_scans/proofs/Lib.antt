pub mod Laws
pub mod Places
pub mod Upstream
pub mod Searches
