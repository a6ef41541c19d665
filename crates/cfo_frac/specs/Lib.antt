pub mod CfoFrac
pub mod Facts
