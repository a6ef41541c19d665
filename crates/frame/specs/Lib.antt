pub mod Roles
pub mod Rules
pub mod OneRole
pub mod BySegment
pub mod RowsLaid
pub mod Operations
pub mod Inner
pub mod Answers
