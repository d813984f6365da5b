pub mod Carry
pub mod Input
