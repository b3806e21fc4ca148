-- The definitions that the contracts of clips cite. Assumes nothing.
pub mod States
