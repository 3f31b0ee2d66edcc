pub mod Drawn
pub mod Potentials
pub mod Joining
pub mod Tested
