pub mod Widths
pub mod Parts
pub mod Cuts
pub mod Agrees
pub mod Joins
pub mod Writes
