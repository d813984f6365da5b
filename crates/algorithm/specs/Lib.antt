pub mod Node
pub mod Algorithm
pub mod Address
