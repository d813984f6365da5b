pub mod Admission
pub mod Called
pub mod Left
