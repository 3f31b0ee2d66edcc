pub mod Room
pub mod Tiling
pub mod Steps
pub mod Asking
pub mod Held
pub mod Counting
pub mod Views
