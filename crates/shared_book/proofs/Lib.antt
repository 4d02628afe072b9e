pub mod Committing
pub mod Gathered
pub mod Owning
pub mod Turning
