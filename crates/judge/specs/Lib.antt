pub mod Rules
pub mod Judged
