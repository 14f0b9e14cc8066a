pub mod Chips
pub mod Codes
pub mod Promises
pub mod Judging
pub mod Straight
