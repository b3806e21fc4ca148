-- The laws of the orders: as numbers (Digits), in their order (Rising), set from the last on, and their items (Turns), each accepted
-- (Accepted), and what is claimed of all (Theorem). Assumes nothing.
pub mod Digits
pub mod Rising
pub mod Turns
pub mod Accepted
pub mod Theorem
