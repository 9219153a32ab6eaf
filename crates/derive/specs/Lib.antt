pub mod Log
pub mod Steps
pub mod Written
