pub mod Laws
pub mod Judging
pub mod Upstream
pub mod Model
