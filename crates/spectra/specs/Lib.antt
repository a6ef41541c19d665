pub mod Spectra
pub mod Changes
pub mod ChangedBins
pub mod Codes
pub mod Flat
