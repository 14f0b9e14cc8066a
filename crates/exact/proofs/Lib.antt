pub mod Counting
pub mod Alone
pub mod Few
pub mod Untouched
