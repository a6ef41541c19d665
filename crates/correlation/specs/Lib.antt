pub mod Correlation
pub mod Inner
pub mod Windows
pub mod Held
