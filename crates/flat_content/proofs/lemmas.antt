-- Lemmas that other crates may cite.
pub mod Others
pub mod Standing
