pub mod Begun
pub mod InPlace
pub mod Stepped
