pub mod InTypes
pub mod Passes
pub mod Places
pub mod Trees
pub mod Demand3
