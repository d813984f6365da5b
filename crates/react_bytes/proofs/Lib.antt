pub mod Handling
pub mod Reacted
pub mod Replaced
pub mod Sections
pub mod Views
