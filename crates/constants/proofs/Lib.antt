pub mod Nodes
pub mod Types
mod Cells
mod Values
