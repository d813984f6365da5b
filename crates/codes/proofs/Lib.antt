pub mod Apart
pub mod Fitting
pub mod Range
pub mod Routes
pub mod Shown
