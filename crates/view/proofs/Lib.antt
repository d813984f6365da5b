pub mod First
pub mod ReportBytes
pub mod ViewBytes
