pub mod Moved
pub mod Place
pub mod Seats
pub mod Parts
