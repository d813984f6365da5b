pub mod Meaning
pub mod Follows
pub mod Lockstep
pub mod Reports
