pub mod Named
pub mod NamedRecords
