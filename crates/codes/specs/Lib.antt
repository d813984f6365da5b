pub mod Apart
pub mod Code
pub mod Routes
pub mod Shown
