pub mod Frames
pub mod Forms
pub mod Exprs
pub mod Lists
mod Figures
pub mod Markings
pub mod Views
