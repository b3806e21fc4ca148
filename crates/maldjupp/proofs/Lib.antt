-- The laws behind the proofs of `maldjupp`. Assumes nothing.
pub mod Numbers
