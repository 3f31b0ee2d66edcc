pub mod Refusals
pub mod Equations
pub mod Touches
pub mod Listing
pub mod Printing
pub mod Placed
pub mod Writing
