pub mod Entries
mod Names
pub mod Tokens
pub mod Answers
pub mod Nodes
pub mod Steps
pub mod Moves
pub mod Primaries
mod Joins
mod Turns
mod Inside
mod Written
pub mod Reached
pub mod Arms
