pub mod Verdicts
pub mod Potentials
pub mod Refusals
pub mod Checked
pub mod Integers
