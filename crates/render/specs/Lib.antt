-- The definitions that the contracts of render cite. Assumes nothing.
pub mod Stages
