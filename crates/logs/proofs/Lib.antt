pub mod Count
pub mod Update
pub mod Log
