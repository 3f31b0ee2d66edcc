pub mod Counting
pub mod Drawn
pub mod Plans
pub mod Shifts
pub mod Matching
pub mod Judged
