-- The definitions that the contracts of `cases` cite. Assumes nothing.
pub mod Areas
pub mod Word
