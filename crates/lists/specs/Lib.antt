pub mod Lists
pub mod Refusals
pub mod Tests
pub mod Truth
pub mod Select
pub mod Fill
pub mod Search
