-- The laws of measuring that belong to no one function. Assumes nothing.
pub mod Walks
pub mod Theorem
