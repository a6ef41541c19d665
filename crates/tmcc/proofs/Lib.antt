-- Laws that belong to no one function.
pub mod Adding
pub mod Segments
pub mod Answers
