pub mod Stored
pub mod Sending
pub mod View
pub mod Runs
