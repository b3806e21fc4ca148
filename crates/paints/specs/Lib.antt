-- The definitions that the contracts of `paints` cite: Paints from gfx.rs, Edges where a root can be spared, which no call of the
-- library cites.
pub mod Paints
pub mod Edges
