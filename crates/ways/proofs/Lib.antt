pub mod Chains
pub mod Ways
