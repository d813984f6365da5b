pub mod Admitted
pub mod Handed
pub mod Settled
pub mod Shown
pub mod Told
