pub mod Parts
pub mod Walks
pub mod Arms
pub mod Loops
