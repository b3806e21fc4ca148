-- The sheet that chosen items of a sheet make. Assumes nothing.
pub mod Chosen
