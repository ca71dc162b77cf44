pub mod Holding
pub mod Orders
pub mod Standing
pub mod Answers
pub mod Fits
pub mod Starting
pub mod Scanning
pub mod Tabling
mod Longer
mod Lending
pub mod Agreeing
pub mod Rereading
