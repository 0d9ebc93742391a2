pub mod Judged
pub mod Upstream
