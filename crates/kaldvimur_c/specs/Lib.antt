pub mod Codes
pub mod Lending
