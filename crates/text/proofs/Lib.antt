pub mod Steps
pub mod Gaps
pub mod Forms
pub mod Words
pub mod Values
pub mod Pieces
pub mod Ends
pub mod Columns
