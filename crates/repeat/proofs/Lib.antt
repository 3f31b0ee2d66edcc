pub mod Turns
pub mod Stops
pub mod InCopies
pub mod Counted
pub mod Once
