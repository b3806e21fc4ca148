-- Fill is what the contracts of the calls cite, Rows what the functions that draw a row do.
pub mod Fill
pub mod Rows
pub mod Examples
