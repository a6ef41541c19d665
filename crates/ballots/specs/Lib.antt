pub mod Ballots
pub mod Inner
pub mod Pilots
pub mod Changed
pub mod Silent
pub mod Facts
