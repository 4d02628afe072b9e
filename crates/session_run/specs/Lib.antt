pub mod Alone
pub mod Answers
pub mod AtDesk
pub mod Sessions
