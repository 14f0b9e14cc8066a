pub mod Turns
pub mod Streams
pub mod Words
pub mod Steps
pub mod Blocks
pub mod Filling
