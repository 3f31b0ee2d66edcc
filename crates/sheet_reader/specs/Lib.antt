pub mod Faults
pub mod Drawing
pub mod Reading
pub mod Laws
