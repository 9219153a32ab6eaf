pub mod Index
pub mod Variables
