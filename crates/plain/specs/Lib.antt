pub mod Flat
pub mod Marks
pub mod Kinds
