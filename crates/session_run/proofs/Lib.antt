pub mod AllLines
pub mod Elements
pub mod Lists
pub mod OneLine
pub mod Playing
