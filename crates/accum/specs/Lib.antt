-- The definitions of `accum_line`: Lines is an edge, Accum one of its rows; Rooms is what its contract asks.
pub mod Lines
pub mod Accum
pub mod Rooms
