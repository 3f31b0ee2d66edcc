pub mod Laws
pub mod Small
pub mod Ends
pub mod Halving
pub mod Asked
pub mod Once
