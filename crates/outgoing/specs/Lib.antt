pub mod Entries
pub mod Outgoing
pub mod Forward
pub mod Room
