pub mod Mended
pub mod Touched
