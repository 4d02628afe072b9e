pub mod LastFrame
pub mod Counts
pub mod Summary
