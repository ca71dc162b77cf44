pub mod Runs
mod Parts
pub mod Rooms
mod Ways
mod Nodes
mod Starting
mod Lists
mod Begins
mod Headed
mod Choices
mod Selections
mod Loops
mod Numbers
mod Labelled
mod Assignments
mod Heads
