pub mod Numbers
pub mod Coding
pub mod Window
pub mod Trace
pub mod Survivors
pub mod Octets
pub mod Path
pub mod Weight
