pub mod Rows
pub mod Places
pub mod Rule
pub mod Randomize
