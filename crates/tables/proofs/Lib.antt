pub mod Laws
pub mod Chains
pub mod Rows
pub mod Delegations
pub mod Cover
pub mod Deliveries
