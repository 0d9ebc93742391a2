pub mod Scans
pub mod Upstream
