pub mod Stamps
pub mod Stamped
