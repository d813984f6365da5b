pub mod Refusals
pub mod Rim
pub mod Rooms
pub mod Shown
