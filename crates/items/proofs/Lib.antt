-- The laws of items that belong to no one function. Assumes nothing.
pub mod Parts
pub mod Sound
pub mod PolyPoints
pub mod Shapeless
pub mod Lawful
pub mod Readings
pub mod Turns
