pub mod Ends
pub mod Legs
pub mod Loads
pub mod Solving
pub mod Stops
pub mod Rest
pub mod Blocks
