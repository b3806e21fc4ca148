-- The definitions that the contracts of `text` cite. Assumes nothing.
pub mod Picture
pub mod Text
pub mod Examples
