-- The laws of drawing that belong to no one function.
pub mod Counts
pub mod Onto
pub mod Rows
pub mod Loops
pub mod Clips
pub mod Clamps
pub mod Frame
pub mod Held
pub mod Parts
