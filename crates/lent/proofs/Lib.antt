pub mod Totals
pub mod Checking
mod Following
