-- Laws that belong to no one function.
pub mod Filled
pub mod Adding
pub mod Scores
pub mod Answers
