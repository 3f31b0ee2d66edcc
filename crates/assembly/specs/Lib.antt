pub mod Plans
pub mod Meaning
