pub mod Tmcc
pub mod Inner
pub mod Facts
