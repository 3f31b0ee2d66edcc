pub mod Redrawing
pub mod Agreement
pub mod Requests
