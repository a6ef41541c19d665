pub mod CarrierRole
pub mod Inner
pub mod Facts
