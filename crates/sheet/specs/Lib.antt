-- The definitions that sheet's contracts cite. Assumes nothing.
pub mod Bytes
pub mod Kinds
pub mod Check
pub mod Examples
