pub mod Given
pub mod Sets
pub mod Excesses
