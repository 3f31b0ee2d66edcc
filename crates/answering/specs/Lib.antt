pub mod Verdicts
pub mod Potentials
pub mod Answers
pub mod Answering
