-- The laws that belong to no one function, and the proof of the claims (Trust). Assumes nothing.
pub mod Compared
pub mod Saturating
pub mod Floors
pub mod Bounds
pub mod Roots
pub mod Patterns
pub mod Scaled
pub mod Sums
pub mod Parts
pub mod Nearest
pub mod NextWhole
pub mod Trust
pub mod Monotone
pub mod Ints
