pub mod Shift
pub mod Moves
pub mod Inner
pub mod MovedBins
pub mod Searches
pub mod Moved
pub mod Facts
