pub mod Postings
pub mod Links
pub mod Keeping
