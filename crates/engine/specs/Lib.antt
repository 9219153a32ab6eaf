pub mod Tests
pub mod Laid
