pub mod Listing
pub mod Renaming
pub mod Occurring
pub mod Pairing
pub mod Turning
pub mod Summing
pub mod Carrying
pub mod Agreeing
