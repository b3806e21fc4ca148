-- The model of a list of patches (Ran), demand 3 (Demand3), the words past the canvas (Margin), the starred examples (Starred),
-- and examples of the ceiling on patch work (Examples).
-- Assumes nothing.
pub mod Demand3
pub mod Margin
pub mod Ran
pub mod Starred
pub mod Examples
