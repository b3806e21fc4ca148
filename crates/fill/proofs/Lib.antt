-- The laws of a fill that belong to no one function.
pub mod Parts
