pub mod Block
pub mod Judge
