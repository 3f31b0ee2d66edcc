pub mod Alike
pub mod Turning
pub mod Agreeing
