pub mod Received
pub mod Tells
