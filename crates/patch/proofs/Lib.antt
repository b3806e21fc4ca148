-- The laws of patching. Assumes nothing.
pub mod Patching
