pub mod Numbers
pub mod Places
pub mod Coding
pub mod Listed
pub mod Determines
