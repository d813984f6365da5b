pub mod Grammar
pub mod Legal
pub mod Show
