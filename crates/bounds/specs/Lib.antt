-- The definitions of a polygon's box: Bounds is the box, Plans the box with its need, and what contracts ask of points and of a
-- box.
pub mod Bounds
pub mod Plans
