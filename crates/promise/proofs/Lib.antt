pub mod Sent
pub mod Parts
pub mod Clean
pub mod Chain
pub mod Whole
