-- Compact is what the contract of the call cites, Sheds what is claimed of what it writes. Examples works some sheets. Assumes
-- nothing.
pub mod Compact
pub mod Sheds
pub mod Examples
