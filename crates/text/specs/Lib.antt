pub mod Limits
pub mod Grammar
pub mod Faults
pub mod Scan
pub mod Decimal
pub mod Reading
pub mod Cut
pub mod Newlines
