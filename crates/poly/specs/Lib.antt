-- The definitions of polygons: Poly is what the contract of `fill_poly` cites, on Bounds of the crate `bounds` and Lines of the
-- crate `accum`; Rooms is what private contracts ask.
pub mod Poly
pub mod Rooms
pub mod Examples
