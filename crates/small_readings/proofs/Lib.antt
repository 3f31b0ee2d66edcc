pub mod Shortening
pub mod Images
pub mod Sizes
pub mod Bounds
pub mod Sums
pub mod Closing
pub mod Solving
pub mod Exactness
