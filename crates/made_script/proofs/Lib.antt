pub mod Remainders
pub mod Names
pub mod Short
pub mod Fine
pub mod Folding
