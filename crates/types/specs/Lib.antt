pub mod Says
pub mod Joins
pub mod Statements
