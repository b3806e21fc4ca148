-- The laws of a shadow that belong to no one function.
pub mod Levels
pub mod Parts
pub mod Fading
