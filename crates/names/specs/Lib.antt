pub mod Walks
pub mod Declares
pub mod Fills
pub mod Judged
