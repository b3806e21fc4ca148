-- The definitions that the contracts of paint cite. Assumes nothing.
pub mod Paint
