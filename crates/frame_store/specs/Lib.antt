pub mod Carry
pub mod Frames
