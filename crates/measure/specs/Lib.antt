-- The definitions that the contracts of measure cite. Assumes nothing.
pub mod Walked
pub mod Examples
