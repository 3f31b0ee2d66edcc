pub mod Groups
pub mod Multiplying
pub mod Mapping
pub mod Adding
pub mod Images
