pub mod Bits
pub mod Message
pub mod Convolution
pub mod Interleaving
pub mod Differential
