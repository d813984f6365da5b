pub mod Answer
pub mod Bytes
pub mod Loop
pub mod Test
pub mod Word
