pub mod Front
pub mod Short
