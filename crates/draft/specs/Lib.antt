pub mod Refusals
pub mod Rules
pub mod Judging
pub mod Counting
