pub mod Accepted
pub mod Clean
pub mod Unread
