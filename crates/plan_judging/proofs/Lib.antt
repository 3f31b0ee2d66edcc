pub mod Turns
pub mod Gathered
pub mod Flagged
