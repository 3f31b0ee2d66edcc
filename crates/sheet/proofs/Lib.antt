pub mod Tiling
pub mod Sizes
pub mod Variables
pub mod Fitting
pub mod Adding
pub mod Freeing
pub mod Cutting
pub mod Whole
