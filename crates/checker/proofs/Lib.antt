pub mod Stage
pub mod FromBook
pub mod OneVerdict
