pub mod CarrierLists
pub mod DataList
pub mod Continual
pub mod ContinualCount
pub mod Operations
pub mod Inner
