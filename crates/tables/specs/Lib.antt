pub mod Links
pub mod Users
pub mod Delegations
pub mod Deliveries
