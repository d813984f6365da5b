pub mod Blocks
pub mod Check
pub mod Received
pub mod Stays
