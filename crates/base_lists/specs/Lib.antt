pub mod Lists
pub mod Table
