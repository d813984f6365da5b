pub mod Judged
pub mod Laws
pub mod Out
pub mod Forwarded
pub mod Room
pub mod Slot
pub mod Spare
