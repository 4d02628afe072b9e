pub mod LowestTerms
pub mod Certifying
pub mod Resting
pub mod Settling
