pub mod Ending
pub mod Listed
pub mod Shown
pub mod Concurrent
pub mod Counting
pub mod Settling
pub mod Together
