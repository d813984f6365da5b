pub mod Claims
pub mod Figures
pub mod Room
