pub mod Complex
pub mod Changes
pub mod Turns
pub mod Gains
pub mod Totals
pub mod Bounds
pub mod Worked
