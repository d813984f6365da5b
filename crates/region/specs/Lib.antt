pub mod Channel
pub mod Record
