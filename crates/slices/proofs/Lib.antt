-- The laws that the proofs of `slices` cite. Assumes nothing.
pub mod Turned
