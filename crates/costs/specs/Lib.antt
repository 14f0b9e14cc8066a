pub mod Kind
pub mod Observed
pub mod Kinds
pub mod Differences
pub mod TwoKinds
