pub mod View
pub mod Methods
