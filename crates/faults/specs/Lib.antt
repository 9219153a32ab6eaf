pub mod Fault
pub mod Sound
