pub mod Message
pub mod Event
pub mod Trace
pub mod Order
pub mod Tags
pub mod Views
