pub mod Fields
pub mod OnlyLegal
pub mod Reading
pub mod ShowBack
