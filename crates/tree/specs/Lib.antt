pub mod Shape
pub mod Ways
pub mod Seen
