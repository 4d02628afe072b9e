mod Causes
pub mod Elements
pub mod History
pub mod Lines
pub mod Puts
pub mod RightReplies
mod Rows
pub mod Sessions
