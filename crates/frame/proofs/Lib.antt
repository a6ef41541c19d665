pub mod Marked
pub mod Segment
pub mod Copied
