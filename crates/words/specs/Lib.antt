pub mod Keys
pub mod Denoted
