-- The laws of sheets that belong to no one function. Assumes nothing.
pub mod Places
pub mod Tables
pub mod Runs
pub mod Accepted
pub mod Local
