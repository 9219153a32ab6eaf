pub mod Stages
pub mod Given
pub mod Numbers
