pub mod Few
pub mod Pictures
