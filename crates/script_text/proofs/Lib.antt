pub mod Table
pub mod Cutting
pub mod Numerals
pub mod Laws
pub mod WholeLines
pub mod Bytes
pub mod Loop
pub mod Texts
pub mod Reach
pub mod FaultKinds
pub mod WholeFaults
mod Examples
pub mod Printed
