pub mod PilotPhase
pub mod Inner
pub mod Changed
pub mod Facts
pub mod Heard
pub mod Worked
