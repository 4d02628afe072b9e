pub mod Beside
pub mod Elements
pub mod Leading
pub mod Dealing
pub mod Gathering
