pub mod Counts
pub mod Reaches
pub mod Tallies
