pub mod Kept
pub mod Pieces
