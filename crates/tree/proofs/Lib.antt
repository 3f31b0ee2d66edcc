pub mod Layouts
pub mod Nodes
pub mod Asks
