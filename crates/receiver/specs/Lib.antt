pub mod Open
pub mod Judging
pub mod Receiver
pub mod Runs
pub mod Book
pub mod Promise
pub mod Inside
