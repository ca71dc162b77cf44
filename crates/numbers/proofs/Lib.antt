pub mod Signs
pub mod Commas
