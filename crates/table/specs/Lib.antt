pub mod Loop
pub mod Table
pub mod Quorum
