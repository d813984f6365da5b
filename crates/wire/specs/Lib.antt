pub mod Codec
pub mod Laws
pub mod Layout
pub mod Shape
