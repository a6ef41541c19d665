pub mod Guess
pub mod Inner
pub mod Windows
pub mod Louder
pub mod Changed
pub mod Facts
pub mod Checked
pub mod Worked
