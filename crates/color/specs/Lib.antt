-- The definitions that color's contracts cite, the law of blending and the paper's examples. Assumes nothing.
pub mod Inks
pub mod Colours
pub mod Trust
pub mod Examples
