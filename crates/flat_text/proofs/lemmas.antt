-- Lemmas that other crates may cite.
pub mod NumberLemmas
pub mod LineLemmas
