pub mod Words
pub mod Fields
pub mod Regions
pub mod Lists
