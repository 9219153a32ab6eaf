pub mod Claim
pub mod Follow
