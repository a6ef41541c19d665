pub mod Letters
pub mod Codes
