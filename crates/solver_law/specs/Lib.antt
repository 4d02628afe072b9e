pub mod Step
pub mod State
pub mod Forest
pub mod Cost
pub mod Closing
