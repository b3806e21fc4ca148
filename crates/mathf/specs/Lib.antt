-- The definitions that mathf's contracts cite, in the document's order, and what they mean (Trust, Examples). Assumes nothing.
pub mod F32
pub mod Root
pub mod Whole
pub mod Convert
pub mod Order
pub mod Lerp
pub mod Trust
pub mod Examples
