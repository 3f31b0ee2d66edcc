pub mod Fitting
pub mod Filling
pub mod Answering
pub mod Deciding
pub mod Exactly
