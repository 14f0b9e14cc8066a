pub mod Numbered
pub mod Banks
pub mod Flies
pub mod Running
pub mod Going
pub mod Frames
