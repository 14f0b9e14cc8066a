pub mod Counts
pub mod Few
pub mod Unharmed
