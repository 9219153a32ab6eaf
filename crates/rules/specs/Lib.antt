pub mod Rules
pub mod Close
