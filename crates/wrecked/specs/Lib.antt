pub mod Wrecked
pub mod Mended
