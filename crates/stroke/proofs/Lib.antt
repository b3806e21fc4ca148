-- The laws of an outline that belong to no one function.
pub mod Gaps
pub mod Levels
pub mod Blanks
