-- The laws of the text of a sheet: a number in decimal, a refusal put run by run, a picture's length, and what painting leaves by its number.
-- Assumes nothing.
pub mod Decimal
pub mod Runs
pub mod Painted
