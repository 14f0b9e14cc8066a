pub mod Distances
pub mod Parts
pub mod Table
pub mod Best
pub mod Searching
