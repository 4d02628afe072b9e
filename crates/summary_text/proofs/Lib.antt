pub mod LastFrames
pub mod Nearness
pub mod Whole
