pub mod Shape
pub mod Tests
