pub mod ListLaws
pub mod TableLaws
