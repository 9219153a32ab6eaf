pub mod Turn
pub mod Status
