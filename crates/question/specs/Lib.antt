pub mod Question
pub mod Asked
pub mod Laws
