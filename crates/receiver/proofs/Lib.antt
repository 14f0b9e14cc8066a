pub mod Passing
pub mod Steps
pub mod Agreeing
pub mod Numbers
pub mod Promised
