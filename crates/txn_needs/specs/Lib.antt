pub mod Keys
pub mod Needs
pub mod Taken
pub mod Versions
pub mod Listing
