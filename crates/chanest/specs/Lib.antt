pub mod Grid
pub mod Inner
pub mod Codes
pub mod Places
pub mod Facts
