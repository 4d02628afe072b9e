pub mod Cycle
pub mod Feasibility
pub mod Search
