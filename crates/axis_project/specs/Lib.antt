pub mod Apart
pub mod Components
pub mod Gather
pub mod Labels
pub mod Parts
pub mod Projection
