pub mod Line
pub mod Estimate
pub mod Inner
