pub mod Forward
pub mod Frames
pub mod Judged
pub mod Marks
