pub mod Spelling
pub mod Steps
pub mod Lines
