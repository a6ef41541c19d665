pub mod SegmentKinds
pub mod Inner
pub mod Facts
