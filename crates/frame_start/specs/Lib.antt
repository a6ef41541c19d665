pub mod FrameStart
pub mod Inner
pub mod Facts
pub mod Worked
