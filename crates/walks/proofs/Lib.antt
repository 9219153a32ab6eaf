pub mod WalkLaws
pub mod Marks
pub mod WalkOverTrees
