pub mod Renumbered
pub mod Layer
pub mod Joined
pub mod Two
pub mod Told
