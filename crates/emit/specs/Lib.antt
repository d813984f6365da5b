pub mod Forward
pub mod Good
pub mod Room
