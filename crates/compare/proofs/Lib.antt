-- The laws of compare that belong to no one function. Assumes nothing.
pub mod Bytes
pub mod Changes
pub mod Walks
