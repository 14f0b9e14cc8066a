pub mod Messages
pub mod Nearest
pub mod Trellis
pub mod Path
pub mod Distance
