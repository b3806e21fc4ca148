-- The laws of the states along a sheet's items. Assumes nothing.
pub mod Clips
pub mod After
pub mod Shapes
pub mod Standing
