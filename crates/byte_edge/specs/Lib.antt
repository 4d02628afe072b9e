pub mod Count
pub mod Given
pub mod Taken
pub mod Totals
