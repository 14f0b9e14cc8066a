pub mod Worked
pub mod Vectors
