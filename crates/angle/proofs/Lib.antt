pub mod Numbers
pub mod Sizes
