pub mod Told
pub mod Answers
pub mod Laid
pub mod Found
pub mod Numbers
