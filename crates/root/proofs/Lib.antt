pub mod Halving
pub mod RootTable
pub mod Finished
pub mod Cases
pub mod Guessed
