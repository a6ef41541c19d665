pub mod Band
pub mod Laws
pub mod Bands
