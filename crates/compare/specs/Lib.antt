-- The definitions that compare's contracts cite. Assumes nothing.
pub mod Compare
pub mod Examples
