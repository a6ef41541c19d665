pub mod Prints
pub mod Printed
pub mod Feed
pub mod Fed
pub mod Sample
