pub mod Adding
pub mod Storing
pub mod AcRow
pub mod Segments
pub mod Counted
pub mod Finding
pub mod Codes
pub mod Answers
