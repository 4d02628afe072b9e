pub mod Bounds
pub mod Cancel
pub mod Existence
pub mod Rounds
pub mod Steps
pub mod Sweeps
pub mod Verdicts
pub mod Walks
