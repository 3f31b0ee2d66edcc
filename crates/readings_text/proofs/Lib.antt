pub mod Magnitudes
pub mod Writing
pub mod Splitting
pub mod Pairs
pub mod Gathering
pub mod Fitting
