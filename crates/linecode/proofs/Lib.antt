pub mod Answers
pub mod Nearness
pub mod Metric
pub mod Least
pub mod Hearing
pub mod StraightGroup
