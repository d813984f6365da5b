pub mod Bytes
pub mod Entry
pub mod CallResult
pub mod Shown
