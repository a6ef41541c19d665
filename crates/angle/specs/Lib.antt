pub mod Arctangents
pub mod Angle
pub mod Inner
pub mod Table
pub mod Circle
pub mod Facts
