pub mod Mirrors
pub mod SameResult
pub mod Run
pub mod Encodes
pub mod Demand2
pub mod Demand3
pub mod Tags
pub mod Refused
