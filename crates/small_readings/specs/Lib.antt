pub mod Small
pub mod Exact
