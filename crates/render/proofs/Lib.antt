-- The laws of drawing items. Assumes nothing.
pub mod Cleared
pub mod Steps
pub mod Few
pub mod Turns
pub mod Drawing
