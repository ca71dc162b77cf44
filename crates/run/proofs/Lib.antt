mod Values
pub mod Lists
