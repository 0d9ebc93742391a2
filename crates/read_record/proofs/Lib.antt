pub mod Laws
pub mod Appended
