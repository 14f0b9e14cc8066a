pub mod Alike
pub mod Sequence
pub mod WhitenedAnswers
pub mod Keeping
