-- Laws that belong to no one function.
pub mod Summing
pub mod Fitted
