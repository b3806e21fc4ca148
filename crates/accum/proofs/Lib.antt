-- Laws that more than one proof cites.
pub mod Words
pub mod Columns
pub mod Turns
