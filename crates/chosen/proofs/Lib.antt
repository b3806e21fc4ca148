-- The laws of chosen items that belong to no one function. Assumes nothing.
pub mod Turns
