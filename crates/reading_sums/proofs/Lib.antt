pub mod Adding
pub mod Parts
