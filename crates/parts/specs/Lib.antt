pub mod Numbers
pub mod Single
pub mod Tables
pub mod Held
pub mod Either
