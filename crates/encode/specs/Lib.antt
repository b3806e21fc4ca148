-- Encode is what calls that write a sheet cite; Placed and Items are for the functions that put bytes, and no call of the
-- library cites them. Assumes nothing.
pub mod Encode
pub mod Placed
pub mod Items
