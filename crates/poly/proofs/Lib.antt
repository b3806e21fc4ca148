-- Laws that more than one proof cites.
pub mod Words
pub mod Turns
pub mod Needs
pub mod Spans
pub mod Calls
pub mod Accepts
pub mod Coverage
