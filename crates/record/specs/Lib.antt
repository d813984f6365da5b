pub mod Record
pub mod Usable
