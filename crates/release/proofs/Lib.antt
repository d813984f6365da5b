pub mod Lawful
pub mod Passed
