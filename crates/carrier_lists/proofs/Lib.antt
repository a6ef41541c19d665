pub mod Collecting
pub mod Stored
pub mod Buffered
