-- Laws that belong to no one function.
pub mod Walking
pub mod BySegment
pub mod Metric
pub mod Chosen
