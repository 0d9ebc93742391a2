pub mod WordNames
pub mod RecordWords
pub mod Changes
