pub mod Calling
pub mod Committed
pub mod Dealing
pub mod Held
