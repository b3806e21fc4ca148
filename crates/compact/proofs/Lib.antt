-- The laws of compacting: its walk over the items (Walks), what a compacted sheet is read as (Kept), and what is claimed of it (Theorem).
-- Assumes nothing.
pub mod Walks
pub mod Kept
pub mod Theorem
