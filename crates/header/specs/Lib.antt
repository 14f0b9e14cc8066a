pub mod Phr
pub mod Headers
pub mod Reading
pub mod Writing
pub mod View
pub mod Laws
