-- The laws of coverage and of colours that belong to no one function.
pub mod Covers
pub mod Colours
