pub mod Claims
pub mod Entry
pub mod Forward
pub mod Frame
pub mod Shown
pub mod Walk
