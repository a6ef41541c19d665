pub mod Gather
pub mod Gathered
