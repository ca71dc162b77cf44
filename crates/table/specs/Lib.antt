pub mod Growth
pub mod Walks
