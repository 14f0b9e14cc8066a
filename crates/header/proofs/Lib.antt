pub mod Parities
pub mod Singles
pub mod Bands
pub mod Phrs
pub mod Back
