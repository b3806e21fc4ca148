-- Registers is what the contracts of panel cite, Lists what is claimed of lists of steps, Examples both at work. Assumes nothing.
pub mod Registers
pub mod Lists
pub mod Examples
