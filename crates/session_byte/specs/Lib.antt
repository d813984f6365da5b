pub mod Memory
pub mod Byte
