-- The laws that belong to no one function. Assumes nothing.
pub mod Bools
pub mod Int
pub mod Boxes
pub mod Signed
pub mod Refusals
