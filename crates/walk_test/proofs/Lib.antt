pub mod Filling
pub mod Moving
pub mod Taking
pub mod Fitting
pub mod Answering
