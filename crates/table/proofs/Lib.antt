pub mod Laws
pub mod Sets
pub mod Entries
pub mod Ranges
