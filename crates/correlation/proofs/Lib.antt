-- Laws that belong to no one function.
pub mod Prefixed
pub mod Windows
