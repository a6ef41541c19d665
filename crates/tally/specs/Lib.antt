pub mod Tally
pub mod Counts
