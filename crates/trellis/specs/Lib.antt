pub mod Memory
pub mod Block
pub mod Trace
pub mod Frame
