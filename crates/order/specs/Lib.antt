pub mod Sequence
pub mod Line
