pub mod Put
pub mod Puts
pub mod PerCent
