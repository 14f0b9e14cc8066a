pub mod Found
pub mod Hex
pub mod Blocks
pub mod Heard
