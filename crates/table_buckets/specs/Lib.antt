pub mod Buckets
pub mod Steps
pub mod Upstream
