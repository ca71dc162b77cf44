pub mod Nodes
pub mod Trees
pub mod Kinds
