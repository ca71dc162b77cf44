pub mod Pour
pub mod Numbers
