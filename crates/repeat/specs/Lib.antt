pub mod Limits
pub mod Repeat
pub mod Sizes
