pub mod Admitted
pub mod Left
pub mod Made
pub mod Stepped
