pub mod Decodes
pub mod Frames
pub mod Puts
pub mod Forms
pub mod Views
mod Heights
mod FirstWords
