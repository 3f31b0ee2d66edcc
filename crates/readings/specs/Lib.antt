pub mod Readings
pub mod Agreement
pub mod Turned
