pub mod Cases
pub mod Moved
pub mod Planned
pub mod Turned
