pub mod Hulls
pub mod Lists
pub mod Parts
pub mod Puts
mod Rows
