-- Stroke is what stroke's contracts cite, Rows what its loops do.
pub mod Stroke
pub mod Rows
