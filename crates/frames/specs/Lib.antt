pub mod Sent
pub mod Heard
pub mod Joined
