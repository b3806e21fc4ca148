-- The theory of redrawing; `demand_3` stands in Lists, the laws of a wider frame in Frames, of smaller boxes in Cuts, of
-- shedding dead shapes in Shed.
pub mod Drawn
pub mod Items
pub mod Lists
pub mod Rules
pub mod Frames
pub mod Sums
pub mod Measured
pub mod Layouts
pub mod Busy
pub mod Ceilings
pub mod Cuts
pub mod Shed
