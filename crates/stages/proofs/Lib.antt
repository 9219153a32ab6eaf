pub mod Closed
pub mod Laws
pub mod Lengths
pub mod Turns
pub mod Running
pub mod Finding
pub mod Exists
pub mod Numbers
