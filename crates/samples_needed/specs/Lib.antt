pub mod Samples
pub mod Inner
pub mod Sizes
pub mod Facts
