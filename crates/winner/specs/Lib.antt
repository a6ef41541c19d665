pub mod Winner
pub mod Inner
pub mod Facts
