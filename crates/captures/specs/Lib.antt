pub mod Letters
pub mod Sections
pub mod Chips
pub mod Decoding
pub mod Costs
pub mod Lines
pub mod Captures
