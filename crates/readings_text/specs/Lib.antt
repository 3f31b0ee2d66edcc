pub mod Numbers
pub mod Lines
pub mod Readings
pub mod Faults
