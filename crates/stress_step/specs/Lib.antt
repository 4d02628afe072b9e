pub mod Proposal
pub mod Pulls
pub mod Spots
pub mod Steps
pub mod Stress
pub mod Sums
