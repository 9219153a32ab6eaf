pub mod InstanceLaws
pub mod InstanceOverTrees
