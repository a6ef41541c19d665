pub mod Window
pub mod Inner
pub mod Reaching
pub mod Summing
