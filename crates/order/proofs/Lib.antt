pub mod Sequence
pub mod Sort
pub mod Lex
pub mod Line
pub mod Select
pub mod Total
