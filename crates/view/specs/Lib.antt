pub mod Report
pub mod Size
pub mod View
