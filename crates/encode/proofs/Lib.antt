-- The laws of bytes put into a buffer (Placing), of a sheet that is put part by part (Parts) and item by item (Turns), and of one that is laid
-- out from its items (Laid). Assumes nothing.
pub mod Placing
pub mod Parts
pub mod Turns
pub mod Laid
