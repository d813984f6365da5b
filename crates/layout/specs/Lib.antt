pub mod Layout
pub mod Slot
