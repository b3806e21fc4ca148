-- The definition that the contracts of `slices` cite. Assumes nothing.
pub mod Each
