pub mod Modulo
pub mod Residues
pub mod Values
