pub mod Told
pub mod Printing
pub mod Lines
pub mod Once
