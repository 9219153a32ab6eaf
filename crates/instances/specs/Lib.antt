pub mod Images
pub mod Rows
