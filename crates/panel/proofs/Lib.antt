-- The laws of the registers: places in a box, and registers in order (Places), that an accepted step leaves such (Kept), the
-- pixels that remain of a box (Remaining), and lists of steps (Theorem). Assumes nothing.
pub mod Places
pub mod Kept
pub mod Remaining
pub mod Theorem
