-- The laws of canvas states that belong to no one function.
pub mod Places
pub mod Valid
pub mod Answers
pub mod Sizes
pub mod Coords
pub mod Kept
pub mod Fits
pub mod Steps
