pub mod Ratio
pub mod Codes
pub mod Inner
pub mod Unchanged
pub mod NoMinus
pub mod Facts
pub mod EachBin
