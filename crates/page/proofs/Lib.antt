pub mod Claims
pub mod Columns
pub mod Digits
pub mod LineBack
pub mod Lines
pub mod Pages
pub mod ReadBack
pub mod Showing
