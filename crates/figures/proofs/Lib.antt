pub mod Accepted
pub mod Adding
pub mod Bounds
pub mod Claims
