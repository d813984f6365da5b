pub mod Changes
pub mod Judged
