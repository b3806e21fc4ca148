-- The law of the table on file.
pub mod Fractions
