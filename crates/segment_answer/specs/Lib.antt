pub mod Answer
pub mod Pieces
pub mod Laws
