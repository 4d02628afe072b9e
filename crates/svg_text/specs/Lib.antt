pub mod Holding
pub mod Picture
pub mod Pieces
pub mod Points
pub mod Putting
pub mod Steps
