mod Constants
pub mod Judging
mod Joining
mod Naming
mod Walking
mod Fronts
mod Owns
mod Declares
pub mod Programs
