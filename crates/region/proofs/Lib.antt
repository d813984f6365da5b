pub mod Saved
pub mod Back
pub mod Waiting
