pub mod Tests
pub mod Narrow
