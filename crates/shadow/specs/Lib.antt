-- Shadow is what the contract of `shadow_rrect` cites, Levels what its table of levels says, Spans what is drawn of a row.
pub mod Shadow
pub mod Levels
pub mod Spans
