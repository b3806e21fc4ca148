-- Laws that more than one proof cites.
pub mod Signs
pub mod Parts
pub mod Turns
pub mod Boxed
pub mod Needs
pub mod Sides
