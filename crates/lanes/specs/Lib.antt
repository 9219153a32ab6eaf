pub mod Lanes
pub mod Held
pub mod Numbers
