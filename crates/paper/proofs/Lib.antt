pub mod Residues
pub mod Runs
pub mod Results
pub mod Tempting
pub mod Counts
pub mod Whys
