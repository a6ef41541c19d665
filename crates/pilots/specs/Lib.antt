pub mod Pilots
pub mod Facts
