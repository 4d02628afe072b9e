pub mod Putting
pub mod Replies
pub mod Steps
