pub mod Claims
pub mod Rules
pub mod Clear
pub mod FollowsOverTrees
