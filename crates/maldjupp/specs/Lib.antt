-- The definitions that the contracts of `maldjupp` cite: Brushes of a paint, Skips of a shadow. Assumes nothing.
pub mod Brushes
pub mod Skips
