-- Lemmas that other crates may cite.
pub mod Adding
pub mod Rebuilding
pub mod Stretches
