-- Falloff is the rule of the table on file, the level of a fraction, and the table of levels.
pub mod Falloff
