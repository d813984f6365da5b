pub mod Cluster
pub mod Bounded
pub mod Claims
