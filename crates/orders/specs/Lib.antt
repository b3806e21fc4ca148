-- Orders is what the contract of the call cites, Every what is claimed of all its sheets. Kinds is for the code's loops, and no
-- call of the library cites it. Assumes nothing.
pub mod Orders
pub mod Every
pub mod Kinds
