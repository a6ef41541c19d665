pub mod Decimal
pub mod Digits
pub mod Put
pub mod Laws
pub mod Ascii
