pub mod Event
pub mod Stop
pub mod Outcome
pub mod Ready
pub mod Shown
