-- The definitions that items' contracts cite. Assumes nothing.
pub mod Items
pub mod Format
pub mod Reader
