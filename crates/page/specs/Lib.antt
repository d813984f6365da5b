pub mod Claims
pub mod Example
pub mod Page
pub mod Read
