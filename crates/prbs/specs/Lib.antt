pub mod Signs
pub mod SignMap
pub mod Buffered
