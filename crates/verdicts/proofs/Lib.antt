pub mod Nearness
pub mod Cleanly
pub mod Behind
