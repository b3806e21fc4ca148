-- The laws of painting. Assumes nothing.
pub mod Needs
pub mod Painting
pub mod RefusedSheets
