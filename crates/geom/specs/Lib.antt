-- The definitions that geom's contracts cite. Assumes nothing.
pub mod Int
pub mod Box
pub mod Plane
pub mod Refusals
pub mod Examples
