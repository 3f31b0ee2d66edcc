pub mod Refusals
pub mod Terms
pub mod Alone
