pub mod Stops
pub mod Mirror
pub mod Places
pub mod Hints
