pub mod Beginnings
pub mod Numbers
