pub mod Walking
pub mod Reaching
pub mod Settling
pub mod Folding
pub mod Flowing
pub mod First
pub mod Refuting
