pub mod Ends
pub mod Finishing
pub mod Input
pub mod Outcomes
pub mod Played
pub mod Runs
