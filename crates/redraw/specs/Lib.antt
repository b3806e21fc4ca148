-- Redrawing: what items draw (Drawing), what painting and patching answer and leave (Sheet) and count (Counts), demand 3 (Calls),
-- the ceiling on patch work (Ceiling), boxes by the rule of before (Before), what painting takes (Sums, Measure), and which items
-- have something in view (Shed).
pub mod Drawing
pub mod Sheet
pub mod Counts
pub mod Calls
pub mod Ceiling
pub mod Before
pub mod Sums
pub mod Measure
pub mod Shed
