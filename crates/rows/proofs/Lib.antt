mod There
mod Lines
mod Infos
mod Keeping
mod Tested
pub mod Total
