pub mod Rests
pub mod Lengths
pub mod Bytes
