-- Laws that belong to no one function. Assumes nothing.
pub mod Weights
pub mod Near
pub mod Overs
pub mod Parts
pub mod Sectors
pub mod Remainders
