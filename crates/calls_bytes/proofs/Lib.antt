pub mod Cases
pub mod Claims
pub mod Forward
pub mod Handled
pub mod Values
pub mod Walk
