pub mod Facts
pub mod Lists
pub mod Block
pub mod Names
