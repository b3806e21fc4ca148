-- The definitions that gfx's contracts cite, and what the calls keep (Sound).
pub mod State
pub mod Calls
pub mod Points
pub mod Sound
