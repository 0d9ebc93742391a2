pub mod Laws
pub mod Sorting
pub mod Appended
pub mod Model
