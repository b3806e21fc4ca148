-- The definitions of drawing: Draw is what the contracts of the shapes cite, Frame where the pixels of a canvas lie in px, Areas
-- what their loops do, Parts a shape drawn in several.
pub mod Draw
pub mod Frame
pub mod Areas
pub mod Held
pub mod Parts
