pub mod Stepwise
pub mod Readers
pub mod Slots
pub mod Meanings
