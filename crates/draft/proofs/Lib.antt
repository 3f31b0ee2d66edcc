pub mod Tables
pub mod Rooms
pub mod Fitting
