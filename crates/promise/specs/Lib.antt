pub mod Sent
pub mod Parts
pub mod Clean
pub mod Chain
pub mod Steps
pub mod Whole
