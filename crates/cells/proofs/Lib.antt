pub mod Pours
pub mod Infos
pub mod Values
mod Variables
