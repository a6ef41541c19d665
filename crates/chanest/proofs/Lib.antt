-- Laws that belong to no one function.
pub mod Writing
pub mod Points
pub mod Band
pub mod Windows
pub mod Answers
